mod Numbered
mod Tested
