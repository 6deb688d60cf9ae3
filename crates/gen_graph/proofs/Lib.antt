mod MadeListsGrow
mod ValuesAreSpelled
pub mod ElementTexts
pub mod TreeTexts
pub mod MadeTables
mod NumbersBack
mod ElementsAreFound
mod ActorsBack
mod ChannelsBack
mod TimesBack
mod SizesBack
mod PhasesBack
pub mod TableBack
