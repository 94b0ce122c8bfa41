use Rattle.std.proofs.Common.{refl, arith}
use Rattle.runner.specs.Files.{no_page, one_page}
use Rattle.runner.proofs.Filing.{law_after_files}
use Rattle.runner.proofs.files.run_file.Goals as goal

pub loop-init : goal.loop-init
loop-init g c = (refl, no_page)

pub loop-preserved : goal.loop-preserved
loop-preserved g c = (omega (arith, c.loop.invariant.0, c.run-ran.auto.page), one_page _ _ _ _ _ _ c.loop.invariant.1 c.run-ran.ensures.value)

pub returns-in_err-write_all : goal.returns-in_err-write_all
returns-in_err-write_all g c = record { value = (_, one_page _ _ _ _ _ _ c.loop.invariant.1 c.run-ran.ensures.value); law = law_after_files }

pub returns-then-not-page_is_full : goal.returns-then-not-page_is_full
returns-then-not-page_is_full g c = record { value = (_, one_page _ _ _ _ _ _ c.loop.invariant.1 c.run-ran.ensures.value); law = law_after_files }

pub returns-after-loop : goal.returns-after-loop
returns-after-loop g c = record { value = (_, c.loop.invariant.1); law = law_after_files }
