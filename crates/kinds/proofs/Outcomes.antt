-- What a caller reads off a call's outcome.
use Rattle.std.proofs.Common.{◌≡◌, ℕ, Ok, Err, Result, arith}
use Rattle.kinds.specs.declared.fault.KindFault.{KindFault}

pub ok_not_err : {A : Type 0} {v : A} {f : KindFault} → ◌≡◌ {A = Result A KindFault} (Ok v) (Err f) → ⊥
ok_not_err p = let z : ◌≡◌ {A = ℕ} 0 1 = cc in omega arith

pub same_fault : {A : Type 0} {f g : KindFault} → ◌≡◌ {A = Result A KindFault} (Err f) (Err g) → f ≡ g
same_fault p = cc

pub same_value : {A : Type 0} {v w : A} → ◌≡◌ {A = Result A KindFault} (Ok v) (Ok w) → v ≡ w
same_value p = cc
