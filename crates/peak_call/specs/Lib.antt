pub mod PeakCall
