use Rattle.std.proofs.Common.{◌≡◌, true, Some, ap, sym}
use Rattle.std.specs.Ordering.{is_gt}
use Rattle.intel_reader.specs.Assembled.{compare_assemblies}
use Rattle.intel_reader.specs.Choice.{assembly_of}
use Rattle.intel_reader.proofs.Leading.{greater_kept}
use Rattle.intel_reader.proofs.choice.gives_way.Goals as goal

pub returns-in-Greater-clause-kept : goal.returns-in-Greater-clause-kept
returns-in-Greater-clause-kept c = λ t b h.
    let e : c.args.best.now ≡ Some c.in-Some.first = cc in
    let g : is_gt (compare_assemblies (assembly_of c.in-Some.first) (assembly_of c.args.other.now)) ≡ true = ap is_gt (sym c.in-Greater.ensures) in
    greater_kept c.in-Some.first c.args.other.now c.args.best.now e g b h
