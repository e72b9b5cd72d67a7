mod Tables
mod Judging
