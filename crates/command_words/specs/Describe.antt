-- What the words of `check` and `ask` ask for. They are those of simple commands: which description, and of `check` how many random matches of it.
use Rattle.std.specs.Prelude.{ℕ, List, ◌&&◌, nat_le, length, if◌then◌else◌, Option, Some, None, codes, option_map}
use Rattle.clap.specs.Words.{App, Row, fault_of, first_of, matches_of, new_app, with_rule}
use Rattle.command_words.specs.Numbers.{number_or}
use Rattle.command_words.specs.Options.{option_rule, value_rule}
use Rattle.command_words.specs.Serve.{unless_refused}
use Rattle.command_words.specs.declared.describe.CheckWords.{CheckWords}

abbrev pub check_app : App
check_app = with_rule (with_rule (new_app (codes "check")) (value_rule (codes "file"))) (option_rule (codes "play"))

abbrev pub ask_app : App
ask_app = with_rule (new_app (codes "ask")) (value_rule (codes "file"))

-- a path of 1 to 4,096 bytes
abbrev pub path_from : Option (List ℕ) → Option (List ℕ)
path_from None = None
path_from (Some path) = if nat_le 1 (length path) && nat_le (length path) 4096 then Some path else None

-- how many matches are said, if some are
abbrev pub plays_from : Option (List ℕ) → Option (Option ℕ)
plays_from None = Some None
plays_from (Some word) = option_map Some (number_or 1 1000000 1 (Some word))

abbrev pub check_with : Option (List ℕ) → Option (Option ℕ) → Option CheckWords
check_with (Some path) (Some plays) = Some (record { path = path; plays = plays })
check_with path plays = None

-- by the values of the words, where they are said
abbrev pub check_of : Option (List ℕ) → Option (List ℕ) → Option CheckWords
check_of path plays = check_with (path_from path) (plays_from plays)

abbrev pub ask_of : Option (List ℕ) → Option (List ℕ)
ask_of path = path_from path

abbrev pub check_in : List Row → Option CheckWords
check_in rows = check_of (first_of (codes "file") rows) (first_of (codes "play") rows)

abbrev pub ask_in : List Row → Option (List ℕ)
ask_in rows = ask_of (first_of (codes "file") rows)

-- what the words ask for, of which the first is the command's own; none where they are in no form
unfoldable pub check_from : List (List ℕ) → Option CheckWords
check_from words = unless_refused (fault_of check_app words) (check_in (matches_of check_app words))

unfoldable pub ask_from : List (List ℕ) → Option (List ℕ)
ask_from words = unless_refused (fault_of ask_app words) (ask_in (matches_of ask_app words))
