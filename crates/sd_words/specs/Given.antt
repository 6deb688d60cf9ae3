-- The command that `clap` reads words by, and the values that it finds.
use Rattle.std.specs.Prelude.{ℕ, true, List, [], Option, Some, None, if◌then◌else◌, codes}
use Rattle.std.specs.List.{fold}
use Rattle.std.specs.Str.{bytes_eq}
use Rattle.clap.specs.Words.{App, Rule, first_value, found_of, new_app, new_rule, with_rule}
use Rattle.clap.specs.declared.builder.action.ArgAction.{ArgAction}
use Rattle.clap.specs.declared.builder.action.ArgAction.TheVariants.{Set, SetTrue}
use Rattle.clap.specs.declared.parser.matches.Found.{Found}
use Rattle.sd_words.specs.declared.names.OptionName.{OptionName}
use Rattle.sd_words.specs.declared.names.OptionName.TheVariants as option
use Rattle.sd_words.specs.declared.given.Given.{Given}
use Rattle.sd_words.specs.Asked.{Values}
use Rattle.sd_words.specs.OptionWords.{option_word, options}

-- what the argument of an option does
unfoldable pub action_for : OptionName → ArgAction
action_for option.NoOverlap = SetTrue
action_for o = Set

-- an argument that is named so
unfoldable pub argument : List ℕ → ArgAction → Rule
argument word action = record (new_rule word) { long = Some word; action = Some action }

-- the argument of an option
unfoldable pub argument_of : OptionName → Rule
argument_of o = argument (option_word o) (action_for o)

-- the command before its arguments: it has no name among the words, no help and no version
unfoldable pub empty_command : App
empty_command =
    let app = new_app (codes "sdf3analysis") in
    record app { top = record app.top { no_binary_name = true; disable_help_flag = true; disable_version_flag = true } }

-- an argument for each option
unfoldable pub command_of_options : App
command_of_options = fold (λ app o. with_rule app (argument_of o)) empty_command options

-- the option without a value is there where its argument is true
unfoldable pub flag_value : Option (List ℕ) → Option (List ℕ)
flag_value None = None
flag_value (Some text) = if bytes_eq text (codes "true") then Some [] else None

-- the value of an option among what was found
unfoldable pub value_found : Found → OptionName → Option (List ℕ)
value_found f option.NoOverlap = flag_value (first_value f (option_word option.NoOverlap))
value_found f o = first_value f (option_word o)

abbrev pub values_given : Given → Values
values_given g = value_found (found_of g.matches)
