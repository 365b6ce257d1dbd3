-- `sending::decide` meets its contract: the tests are made on the row of the message.
-- Assumes nothing.
use borrow.Author.Rules.{rules}
use Rattle.sending.specs.Numbers.{outgoing_in}
use Rattle.sending.proofs.Decided.{passed_sent, refused_sent}
use Rattle.sending.proofs.decide.Goals as goal

pub returns-in_err-tested : goal.returns-in_err-tested
returns-in_err-tested g c =
    let number = g.Why.Numbered.number in
    let h = refused_sent c.args.e (outgoing_in number c.args.o) c.args.room c.send_row-row.ensures number _ (g.met.Why.Refuses.numbered _) c.in_err-tested.ensures in
    search rules

pub returns : goal.returns
returns g c =
    passed_sent c.args.e (outgoing_in g.Why.Numbered.number c.args.o) c.args.room c.send_row-row.ensures _ c.in_ok-tested.ensures c.accepted.ensures
