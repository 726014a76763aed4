pub mod SerialRun
