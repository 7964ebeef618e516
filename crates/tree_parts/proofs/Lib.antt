mod Flagged
mod Parts
