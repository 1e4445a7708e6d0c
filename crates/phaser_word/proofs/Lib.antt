pub mod SpelledOut
