pub mod FreeLists
