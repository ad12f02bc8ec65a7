-- Words that the command refuses ask for nothing.
use Rattle.std.proofs.Common.{◌≡◌, [], ◌∷◌, Option, None, Err, inl, inr, refl}
use Rattle.clap.specs.Kinds.{Kinds, IsAmong, HasKind}
use Rattle.clap.specs.Words.{kind_of}
use Rattle.clap.specs.declared.error.Error.{Error}
use Rattle.clap.specs.declared.error.kind.ErrorKind.{ErrorKind}
use Rattle.clap.specs.declared.error.kind.ErrorKind.TheVariants.{OutOfMemory}
use Rattle.command_words.specs.Answers.{Answers}
use Rattle.command_words.specs.Serve.{unless_refused}
use Rattle.command_words.specs.declared.words_no.WordsNo.{WordsNo}
use Rattle.command_words.specs.declared.words_no.WordsNo.TheVariants.{NoMemory, Usage}

among_none : {A : Type 0} (kinds : Kinds) (k : ErrorKind) (asked : Option A) → IsAmong k kinds → unless_refused kinds asked ≡ None
among_none [] k asked among = absurd among
among_none (kind ∷ kinds) k asked among = refl

pub refused : {A : Type 0} (kinds : Kinds) (asked : Option A) (e : Error) (w : WordsNo) → HasKind kinds e → (w ≡ Usage → kind_of e ≡ OutOfMemory → ⊥)
    → Answers (unless_refused kinds asked) (Err w)
refused kinds asked e NoMemory has not_memory = tt
refused kinds asked e Usage (inl memory) not_memory = absurd (not_memory refl memory)
refused kinds asked e Usage (inr among) not_memory = among_none kinds (kind_of e) asked among
