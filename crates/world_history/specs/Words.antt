-- The words that a world prints of a client: what came of its action, and of the line that it read.
use Rattle.std.specs.Prelude.{ℕ, List, ◌∷◌, [], ◌++◌, codes, decimal, Result, Ok, Err}
use Rattle.client_predict.specs.declared.told.ActNo.{ActNo}
use Rattle.client_predict.specs.declared.told.ActNo.TheVariants as act_no
use Rattle.client_predict.specs.declared.told.FeedNo.{FeedNo}
use Rattle.client_predict.specs.declared.told.FeedNo.TheVariants as feed_no
use Rattle.client_predict.specs.declared.told.Predicted.{Predicted}
use Rattle.client_predict.specs.declared.told.Predicted.TheVariants.{Guessed, Sent}
use Rattle.client_predict.specs.declared.told.Told.{Told}
use Rattle.client_predict.specs.declared.told.Told.TheVariants.{Synced, Updated, Accepted, Refused, Again, Ended, Other}
use Rattle.wire_json.specs.ByeText.{bye_text}
use Rattle.wire_json.specs.ReasonText.{reason_text}

abbrev pub predicted_word : Predicted → List ℕ
predicted_word Guessed = codes "guessed"
predicted_word Sent = codes "sent"

abbrev pub act_no_word : ActNo → List ℕ
act_no_word act_no.NotSynced = codes "not-synced"
act_no_word act_no.Gone = codes "gone"
act_no_word act_no.TooManyWaiting = codes "too-many-waiting"
act_no_word act_no.NoMemory = codes "again"

abbrev pub told_word : Told → List ℕ
told_word Synced = codes "sync"
told_word Updated = codes "update"
told_word (Accepted ticket) = codes "ok " ++ decimal ticket
told_word (Refused ticket reason) = codes "no " ++ reason_text reason
told_word (Again ticket) = codes "again"
told_word (Ended why) = codes "bye " ++ bye_text why
told_word Other = codes "other"

abbrev pub feed_no_word : FeedNo → List ℕ
feed_no_word feed_no.Gone = codes "gone"
feed_no_word feed_no.BadLine = codes "bad-line"
feed_no_word (feed_no.OutOfStep have was) = codes "out-of-step " ++ decimal have ++ 32 ∷ decimal was
feed_no_word (feed_no.UnknownTicket ticket) = codes "unknown-ticket " ++ decimal ticket
feed_no_word feed_no.NoMemory = codes "again"

abbrev pub heard_word : Result Told FeedNo → List ℕ
heard_word (Ok told) = told_word told
heard_word (Err why) = feed_no_word why

-- it stands behind the client's number
abbrev pub of_client : ℕ → List ℕ → List ℕ
of_client c word = decimal c ++ 32 ∷ word ++ 10 ∷ []
