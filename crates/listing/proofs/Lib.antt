mod Putting
mod Sizes
mod Answering
