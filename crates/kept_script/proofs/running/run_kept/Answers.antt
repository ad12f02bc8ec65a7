use Rattle.std.proofs.Common.{inl, refl}
use Rattle.object_journal.specs.declared.replaying.OpenNo.TheVariants as open_no
use Rattle.kept_script.proofs.Ends.{unopened_completes, unopened_raises}
use Rattle.kept_script.proofs.running.run_kept.Goals as goal

pub returns-in-Err-clause-ran : goal.returns-in-Err-clause-ran
returns-in-Err-clause-ran g c l k = inl (record { no = open_no.NoMemory; is = refl; refused = tt })

pub returns-in-Err-clause-keeps : goal.returns-in-Err-clause-keeps
returns-in-Err-clause-keeps g c known l k = inl (record { no = open_no.NoMemory; is = refl; refused = tt })

pub returns-in-Err-clause-raises : goal.returns-in-Err-clause-raises
returns-in-Err-clause-raises g c = unopened_raises open_no.NoMemory _ refl _ _

pub returns-in-Err-clause-completes : goal.returns-in-Err-clause-completes
returns-in-Err-clause-completes g c l k f s t = unopened_completes open_no.NoMemory _ refl
