-- The options among the words of a command, as `clap` reads them.
use Rattle.std.specs.Prelude.{ℕ, List, Some, true}
use Rattle.clap.specs.Words.{Rule, new_rule}
use Rattle.clap.specs.declared.builder.action.ArgAction.TheVariants.{Set, SetTrue}

-- an option that takes a value, by its long name
abbrev pub option_rule : List ℕ → Rule
option_rule name = record (new_rule name) { long = Some name; action = Some Set }

-- one that takes no value, and is there or not
abbrev pub flag_rule : List ℕ → Rule
flag_rule name = record (new_rule name) { long = Some name; action = Some SetTrue }

-- one that has to be said
abbrev pub needed_rule : List ℕ → Rule
needed_rule name = record (option_rule name) { required = true }

-- a value that has to be said, by its place
abbrev pub value_rule : List ℕ → Rule
value_rule name = record (new_rule name) { required = true; action = Some Set }
