mod Worths
mod Turns
mod ReadBack
