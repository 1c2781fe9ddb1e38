pub mod ScanLines
