-- Every text fits into the output, so its start is the text.
use Rattle.std.proofs.Common.{replicate}
use Rattle.report.proofs.PrintedLaws.{read_back}
use Rattle.sulgrach.proofs.text.Goals as goal

pub returns : goal.returns
returns c =
    let put = c.report.ensures in
    let back = read_back c.args.input.now (replicate 16384 0) (replicate 16384 0) c.report.result c.args.out.now _ c.requires put.length_is put.output_is in
    record { upper_bound = back.0; out_value = back.1 }
