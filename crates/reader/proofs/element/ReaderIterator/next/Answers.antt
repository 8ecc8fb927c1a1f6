use Rattle.reader.proofs.Turns.{turn}
use Rattle.reader.proofs.element.ReaderIterator.next.Goals as goal

pub returns-clause-steps : goal.returns-clause-steps
returns-clause-steps c = λ s. rw (← c.take-octets.ensures.value) (turn c.args.self.now.place s c.in_ok-id.ensures.cases.0 c.in-Some.ensures.contents_and_rest)
