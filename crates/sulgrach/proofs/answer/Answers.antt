-- What was read is the whole input, or 833 bytes of it; the text of either is that of the whole input, and is written.
use Rattle.std.proofs.Common.{◌≡◌, ℕ, List, length, take, replicate, subst, ◌∙◌, length-take-le}
use Rattle.std.proofs.lemmas.Result.{on_ok_weaker}
use Rattle.std.specs.Io.KnownBytes.{Appends}
use Rattle.report.specs.Printed.{printed}
use Rattle.sulgrach.proofs.Whole.{of_read}
use Rattle.sulgrach.proofs.answer.Goals as goal

pub returns : goal.returns
returns g c =
    let zeros : List ℕ = replicate 16384 0 in
    let n = c.read_full-n.result.0 in
    let read = c.read_full-n.ensures in
    let buffer : List ℕ = c.read_full-n.new.buffer in
    let long : length buffer ≡ 833 = c.read_full-n.auto.buffer in
    let came : List ℕ = take n buffer in
    let written : List ℕ → Type 0 = λ ys. Appends (g.W.Write.contents c.args.output.now) (g.W.Write.contents c.write_all.new.self) ys in
    let text : written (printed came zeros zeros) = subst written c.text-end.ensures.out_value c.in_ok-write_all.ensures.bytes in
    on_ok_weaker c.read_full-n.result.1 (λ end. of_read zeros zeros _ _ came written (λ few. end (λ e. few (length-take-le n buffer read.within ∙ e ∙ long))) read.bytes text) read.end
