use Rattle.std.proofs.Common.{sym, arith}
use Rattle.runner.specs.Files.{no_command, one_more}
use Rattle.runner.proofs.Filing.{law_after_runs}
use Rattle.runner.proofs.files.run.Goals as goal

pub loop-book-init : goal.loop-book-init
loop-book-init g c = (no_command, omega arith)

pub loop-book-preserved : goal.loop-book-preserved
loop-book-preserved g c = (
  one_more _ _ _ _ _ _ c.loop-book.invariant.0 (sym c.loop-book-test.ensures) c.run_one-ran.ensures.value,
  omega (arith, c.run_one-ran.ensures.within c.loop-book.invariant.1, c.run_one-ran.auto.page),
)

pub returns : goal.returns
returns g c = record { value = c.loop-book.invariant.0; ended = sym c.loop-book-test.ensures; within = omega (arith, c.loop-book.invariant.1, c.loop-book.auto.page); law = law_after_runs }
