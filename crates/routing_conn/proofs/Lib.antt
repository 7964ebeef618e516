mod Turns
mod Lists
mod Frames
mod Coming
mod Parts
mod Judged
