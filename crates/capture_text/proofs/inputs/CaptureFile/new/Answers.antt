use Rattle.std.proofs.Common.{refl, arith}
use Rattle.std.proofs.lemmas.List.Elements.{All-nil}
use Rattle.ntp_capture.specs.Grammar.{given, fault_so_far, refusal_in}
use Rattle.ntp_capture.specs.Cut.{units_of}
use Rattle.ntp_capture.specs.Matches.{gots}
use Rattle.capture_text.specs.Inputs.{answers_of, IsAnswerTimed}
use Rattle.capture_text.proofs.inputs.CaptureFile.new.Goals as goal

pub returns : goal.returns
unfolding given fault_so_far refusal_in units_of gots answers_of
returns c k requests reader matcher = record {
  stands = reader;
  sound = refl;
  gathers = record {
    freq = refl;
    matches = matcher;
    records = refl;
    answers = c.new.ensures.items;
    exchanges = refl;
    few = omega arith;
    timed = All-nil IsAnswerTimed;
  };
  few = omega arith;
}
