pub mod command_lemmas
mod RunsShowWhatIsSent
