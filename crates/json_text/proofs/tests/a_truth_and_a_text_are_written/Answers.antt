use Rattle.std.proofs.Common.{true, refl}
use Rattle.json_text.proofs.Numbers.{truth_numbers}
use Rattle.json_text.proofs.tests.a_truth_and_a_text_are_written.Goals as goal

pub write-requires : goal.write-requires
write-requires g c = truth_numbers _ true refl
