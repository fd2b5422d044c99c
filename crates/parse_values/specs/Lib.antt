pub mod ModeView
