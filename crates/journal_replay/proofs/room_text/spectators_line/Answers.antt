use Rattle.std.proofs.Common.{sym, ◌∙◌}
use Rattle.wire_json.specs.ServerText.{text as server_text}
use Rattle.journal_replay.specs.Showing.{sync_of}
use Rattle.journal_replay.proofs.Asking.{fed, line_taken}
use Rattle.journal_replay.proofs.room_text.spectators_line.Goals as goal

pub apply-requires : goal.apply-requires
apply-requires c = record { history = (_, c.apply-attached.ensures.stands _ (c.apply-detached.ensures.stands c.requires.1.h c.requires.1.in_room)) }

pub returns : goal.returns
returns c m st is =
    let attached = c.apply-attached.ensures.stands _ (c.apply-detached.ensures.stands st.h st.in_room) in
    c.lines_taken.ensures (server_text (sync_of c.args.book.now.room m))
    (line_taken c.args.book.now.room c.apply-attached.new.self.room (c.apply-attached.ensures.number ∙ c.apply-detached.ensures.number) st.h _ m c.args.serial _ _ _ c.apply.result st.same is (fed _ c.apply-detached.ensures.fed)
    (sym c.starved-starved.ensures ∙ c.if-starved.false) (fed _ c.apply.ensures.fed) (c.apply.ensures.answered _ attached))
