pub mod ShownPages
