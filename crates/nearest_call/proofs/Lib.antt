-- The call over bytes.
mod Calls
