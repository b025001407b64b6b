pub mod SampleNames
