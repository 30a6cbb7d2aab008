pub mod ExactAlong
