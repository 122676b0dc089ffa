use Rattle.capture_text.specs.Files.{answer_text}
use Rattle.capture_text.proofs.Listing.{Listing}
use Rattle.capture_text.proofs.pushes.push_answers.Given as goal

abbrev pub invariant-loop-answer : goal.invariant-loop-answer
invariant-loop-answer g l = record { listing : Listing g.K.Sink.written g.K.Sink.faults g.K.Sink.push_gives answer_text l.answers l.answer-index l.fn.sink l.sink }
