mod Following
mod Fills
mod Words
mod Looks
mod Calls
