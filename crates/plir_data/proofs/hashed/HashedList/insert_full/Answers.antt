use Rattle.std.proofs.Common.{◌≡◌, List, [], ◌∷◌, ◌++◌, Contains, length, Result, Ok, Err, OnOk, OnErr, inl, inr, refl, sym}
use Rattle.std.proofs.lemmas.Option.{slice_get_read}
use Rattle.plir_data.specs.Types.{IsGrown}
use Rattle.plir_data.proofs.hashed.HashedList.insert_full.Goals as goal

grown : {X V E : Type 0} (old new : List X) (x : X) (r : Result V E) → (Contains old x → ⊥) → OnOk r (new ≡ old ++ x ∷ [])
    → OnErr r (new ≡ old) → IsGrown old x new
grown old new x (Ok v) absent ok err = inr (absent, ok)
grown old new x (Err e) absent ok err = inl err

pub returns-clause-grown : goal.returns-clause-grown
returns-clause-grown g c =
    grown c.args.self.now c.put_last.new.self c.args.value c.put_last.result (λ s. c.in_default.ensures.absent s.0 (
      c.args.value,
      slice_get_read c.args.self.now (length c.args.self.now) s.0 c.args.value refl s.1 (sym s.2),
      g.met.T.Eq.laws.refl c.args.value,
    )) c.put_last.ensures.ok c.put_last.ensures.err
