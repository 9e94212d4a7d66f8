-- Steps that did not fail, and choices.
use Rattle.std.proofs.Common.{◌≡◌, ◌⊎◌, Bool, true, false, cond, Result, Ok, Err, refl, sym, ◌∙◌, inl, inr}
use Rattle.plir_attr_text.specs.declared.fault.Stop.TheVariants.{OutOfMemory, Crowded, At}
use Rattle.plir_attr_text.specs.{declared.fault.Fault.Fault, declared.fault.Stop.Stop, Steps.◌>>=◌, Reading.Ends}
use Rattle.plir_attr_text.specs.{Reading.Fails}

pub chosen : {A : Type 0} (b : Bool) (x y z : A) → cond b x y ≡ z → ((b ≡ true) × (x ≡ z)) ⊎ ((b ≡ false) × (y ≡ z))
chosen true x y z e = inl (refl, e)
chosen false x y z e = inr (refl, e)

-- the value of a step that did not fail
pub bind_ok : {A B : Type 0} (r : Result A Fault) (f : A → Result B Fault) (y : B) → (r >>= f) ≡ Ok y →
    (x : A) × (r ≡ Ok x) × (f x ≡ Ok y)
bind_ok (Ok x) f y e = (x, refl, e)
bind_ok (Err d) f y e = absurd cc

abbrev pub done : {A : Type 0} → A → Result A Fault
done x = Ok x

pub ok_is : {A : Type 0} (x y : A) → done x ≡ done y → x ≡ y
ok_is x y e = cc

-- a fault of the first step is one of both
pub Ends-bind : {A B : Type 0} (crowded : Type 0) (e : Stop) (r : Result A Fault) (f : A → Result B Fault) →
    Ends crowded e r → Ends crowded e (r >>= f)
Ends-bind crowded OutOfMemory r f h = tt
Ends-bind crowded Crowded r f h = h
Ends-bind crowded (At d left) r f h = (rw (h.0) refl, h.1)

pub Fails-bind : {A B : Type 0} (e : Stop) (r : Result A Fault) (f : A → Result B Fault) → Fails e r → Fails e (r >>= f)
Fails-bind e r f h = Ends-bind ⊥ e r f h

pub Ends-from : {A : Type 0} (crowded : Type 0) (e : Stop) (r s : Result A Fault) → r ≡ s → Ends crowded e r →
    Ends crowded e s
Ends-from crowded OutOfMemory r s p h = tt
Ends-from crowded Crowded r s p h = h
Ends-from crowded (At d left) r s p h = (sym p ∙ h.0, h.1)

pub Fails-from : {A : Type 0} (e : Stop) (r s : Result A Fault) → r ≡ s → Fails e r → Fails e s
Fails-from e r s p h = Ends-from ⊥ e r s p h
