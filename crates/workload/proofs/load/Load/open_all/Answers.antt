use Rattle.workload.proofs.load.Load.open_all.Goals as goal

pub returns : goal.returns
returns c = λ tape words lines l is.
    let one = c.in_ok-open.ensures.opened tape words lines l is in
    let two = c.in_ok-open-2.ensures.opened tape words lines _ one in
    let three = c.in_ok-open-3.ensures.opened tape words lines _ two in
    let four = c.in_ok-open-4.ensures.opened tape words lines _ three in
    c.open-5.ensures.opened tape words lines _ four
