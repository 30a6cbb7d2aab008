pub mod ExactSuspects
