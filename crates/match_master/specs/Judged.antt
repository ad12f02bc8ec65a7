-- What the judgment of a submission says: the first rule that is broken, or what the accepted action leads to.
use Rattle.std.specs.Prelude.{◌≡◌, ◌+◌, ℕ, ◌∷◌, Some, None, false, min}
use Rattle.game_sheet.specs.Viewer.{Viewer}
use Rattle.game_trait.specs.Rules.{Rules}
use Rattle.move_log.specs.declared.entry.Entry.{Entry}
use Rattle.reducer.specs.Accepted.{Accepted}
use Rattle.reducer.specs.Prepared.{Coming, IsReady}
use Rattle.reducer.specs.Standing.{Standing}
use Rattle.wire_json.specs.declared.submission.Submission.{Submission}
use Rattle.room_history.specs.Match.{Match, number_of, table_of}
use Rattle.room_history.specs.Shown.{entry_of, words_drawn}
use Rattle.room_history.specs.Verdict.{first_reason, match_accepting}
use Rattle.match_master.specs.declared.judge.Judged.{Judged}
use Rattle.match_master.specs.declared.judge.Judged.TheVariants.{Refused, Accepted as Accepts}

-- the log's entry of an action on a state that leads to a place in the words
abbrev pub entry_at : {G : Type 0} → Standing G → ℕ → Accepted → Entry
entry_at state after a = record {
  seat = a.seat;
  act = a.act;
  hidden = false;
  number = state.number;
  turn = state.table.ctx.turn;
  phase = state.table.ctx.phase;
  words = min (words_drawn a.act state.table.place after) 256;
}

module _ {X G : Type 0} (rules : X → Rules G) (room : ℕ) where
  pub record IsAccepted (m : Match X G) (viewer : Viewer) (s : Submission) (coming : Coming G) (entry : Entry) : Type 0 where
    pub unbroken : first_reason rules room m viewer s ≡ None
    pub match_is : match_accepting rules m viewer s ≡ record m { accepted = coming.action ∷ m.accepted }
    pub number_is : coming.number ≡ number_of m + 1
    pub table_is : coming.table ≡ table_of rules (record m { accepted = coming.action ∷ m.accepted })
    pub entry_is : entry ≡ entry_of (table_of rules m) coming.table (number_of m) coming.action

  abbrev pub IsJudged : Match X G → Viewer → Submission → Judged G → Type 0
  IsJudged m viewer s (Refused reason) = first_reason rules room m viewer s ≡ Some reason
  IsJudged m viewer s (Accepts coming entry) = IsAccepted m viewer s coming entry

-- an accepted action is ready to go into the state that it was judged on
abbrev pub JudgedReady : {G : Type 0} → Rules G → Standing G → Judged G → Type 0
JudgedReady rules state (Refused reason) = Unit {0}
JudgedReady rules state (Accepts coming entry) = IsReady rules state coming
