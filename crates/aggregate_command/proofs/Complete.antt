-- A refusal, where no fault is counted, is that of the verdict or comes for want of memory.
use Rattle.std.proofs.Common.{◌≡◌, ◌⊎◌, List, ℕ, Option, Some, None, IfSome, inl, inr, refl, sym, ap}
use Rattle.mq_ports.specs.World.{Held}
use Rattle.aggregate_command.specs.Verdict.{verdict}
use Rattle.aggregate_command.specs.Status.{Step, Explains, status_of}
use Rattle.aggregate_command.specs.declared.status.Status.{Status}
use Rattle.aggregate_command.specs.declared.status.Status.TheVariants.{Done, NotBuilt, Usage, BadCommand, BadCluster, BadShard, NoFile, FileTooLong, EvalError, TooManyDocuments, ReadFault, SpillFault, TargetFault, WriteFault, Damage, Memory}

by_status : (status : Status) (step : Step (List ℕ)) (R W : Type 0) → Explains status step → (status ≡ ReadFault → R) → ¬ R → ¬ W → (status ≡ status_of step) ⊎ (status ≡ Memory)
by_status NotBuilt step R W says cause r w = inl (sym (ap status_of says))
by_status Usage step R W says cause r w = inl (sym (ap status_of says))
by_status (BadCommand b) step R W says cause r w = inl (sym (ap status_of says))
by_status (BadCluster b) step R W says cause r w = inl (sym (ap status_of says))
by_status (BadShard b) step R W says cause r w = inl (sym (ap status_of says))
by_status (NoFile name) step R W says cause r w = inl (sym (ap status_of says))
by_status (FileTooLong name len) step R W says cause r w = inl (sym (ap status_of says))
by_status (EvalError f) step R W says cause r w = inl (sym (ap status_of says))
by_status ReadFault step R W says cause r w = absurd (r (cause refl))
by_status Memory step R W says cause r w = inr refl
by_status Done step R W says cause r w = absurd says
by_status TooManyDocuments step R W says cause r w = absurd says
by_status SpillFault step R W says cause r w = absurd says
by_status TargetFault step R W says cause r w = absurd says
by_status WriteFault step R W says cause r w = absurd says
by_status Damage step R W says cause r w = absurd says

pub refused_complete : (status : Status) (words : List (List ℕ)) (told : Option Held) (R W : Type 0) → IfSome told (λ held. Explains status (verdict words held)) → (status ≡ ReadFault → R) → IfSome told (λ held. ¬ R → ¬ W → (status ≡ status_of (verdict words held)) ⊎ (status ≡ Memory))
refused_complete status words None R W says cause = tt
refused_complete status words (Some held) R W says cause = by_status status (verdict words held) R W says cause
