-- What a reading of words answers: what they ask for, or that they are in no form. Want of memory may come in any case.
use Rattle.std.specs.Prelude.{◌≡◌, Option, Some, None, Result, Ok, Err}
use Rattle.command_words.specs.declared.words_no.WordsNo.{WordsNo}
use Rattle.command_words.specs.declared.words_no.WordsNo.TheVariants.{NoMemory, Usage}

abbrev pub Answers : {A : Type 0} → Option A → Result A WordsNo → Type 0
Answers asked (Ok words) = asked ≡ Some words
Answers asked (Err Usage) = asked ≡ None
Answers asked (Err NoMemory) = Unit {0}
