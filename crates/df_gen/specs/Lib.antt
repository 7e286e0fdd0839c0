pub mod GeneratedSource
