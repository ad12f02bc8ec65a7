use Rattle.test_server.proofs.meetings.two_links_that_wait_for_each_other_are_served_by_two_workers.Goals as goal

-- the passes of all rows have seen the same
pub take_watch-passes-requires-clause-seen : goal.take_watch-passes-requires-clause-seen
take_watch-passes-requires-clause-seen g c =
    let stood = c.in_ok-desks.ensures.seen in
    (stood.0, stood.2)
