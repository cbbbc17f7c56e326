pub mod ImmediateLaws
pub mod GivenLaws
pub mod InstrLaws
