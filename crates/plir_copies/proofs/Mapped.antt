-- What a map holds into which the copies of the nodes of a list are put, one after another.
use Rattle.std.proofs.Common.{◌≡◌, ◌∙◌, ℕ, Bool, true, false, cond, nat_lt, List, [], ◌∷◌}
use Rattle.std.proofs.Common.{length}
use Rattle.std.proofs.Common.{Option, Some, None, inl, inr, refl, sym, ap, subst}
use Rattle.std.specs.Option.{option_or}
use Rattle.std.specs.Cmp.{first_so, second_so}
use Rattle.std.proofs.lemmas.Bool.{and_from}
use Rattle.plir_store.specs.Members.{Has, Distinct}
use Rattle.plir_store.specs.MemberLaws.{map-Has}
use Rattle.plir_core.specs.declared.ptr.Ptr.{Ptr}
use Rattle.plir_core.specs.declared.ptr.BasicBlock.{BasicBlock as BlockKind}
use Rattle.plir_core.specs.declared.ptr.IRNode.{IRNode}
use Rattle.plir_core.specs.declared.ptr.IRNode.TheVariants.{Operation, Region, BasicBlock}
use Rattle.plir_core.specs.declared.value.Value.{Value}
use Rattle.plir_core.specs.declared.value.DefiningEntity.{DefiningEntity}
use Rattle.plir_core.specs.declared.value.DefiningEntity.TheVariants.{Op, Block}
use Rattle.plir_core.specs.SameValue.{same_ptr, same_entity, ptr-exact, entity-exact}
use Rattle.plir_core.specs.ContextView.{ContextView, IsLive, IsValueLive, entity_node, types_from, results_in}
use Rattle.plir_core.specs.ContextView.{arguments_in}
use Rattle.plir_copies.specs.declared.trees.Twin.{Twin}
use Rattle.plir_copies.specs.Images.{Images, AreImagesLive, over}
use Rattle.plir_copies.specs.Copied.{is_among_first, value_at}
use Rattle.plir_copies.specs.Twins.{nodes_of, AreOfOneKind, HoldsAs, with_twin, with_twins}
use Rattle.plir_copies.proofs.Images.{live-values, live-block}

-- nothing is chosen where a test does not hold
skipped : {X : Type 0} (b : Bool) (x y : X) → (b ≡ true → ⊥) → cond b x y ≡ y
skipped true x y n = absurd (n refl)
skipped false x y n = refl

module _ {K A T : Type 0} (t : ContextView K A T) where
  among : (e : DefiningEntity) (v : Value) → is_among_first e (length (types_from t e)) v ≡ true
      → (entity_node v.entity ≡ entity_node e) × (nat_lt v.index (length (types_from t v.entity)) ≡ true)
  among e v h =
      let same = (entity-exact e v.entity).0 (first_so (same_entity e v.entity) (nat_lt v.index (length (types_from t e))) h) in (
        ap entity_node (sym same),
        subst (λ x. nat_lt v.index (length (types_from t x)) ≡ true) same
            (second_so (same_entity e v.entity) (nat_lt v.index (length (types_from t e))) h),
      )

  -- other values stay
  other-value : (m : Images) (n c : IRNode) (v : Value)
      → (entity_node v.entity ≡ n → nat_lt v.index (length (types_from t v.entity)) ≡ true → ⊥)
      → (with_twin t m n c).value v ≡ m.value v
  other-value m (Operation p) (Operation q) v n =
      skipped (is_among_first (Op p) (length (types_from t (Op p))) v) (Some (value_at (Op q) v.index)) (m.value v)
      (λ h. let r = among (Op p) v h in n r.0 r.1)
  other-value m (BasicBlock p) (BasicBlock q) v n =
      skipped (is_among_first (Block p) (length (types_from t (Block p))) v) (Some (value_at (Block q) v.index)) (m.value v)
      (λ h. let r = among (Block p) v h in n r.0 r.1)
  other-value m (Region p) (Operation q) v n = refl
  other-value m (Region p) (Region q) v n = refl
  other-value m (Region p) (BasicBlock q) v n = refl
  other-value m (Operation p) (Region q) v n = refl
  other-value m (Operation p) (BasicBlock q) v n = refl
  other-value m (BasicBlock p) (Operation q) v n = refl
  other-value m (BasicBlock p) (Region q) v n = refl

  pub other-values : (ws : List Twin) (m : Images) (v : Value)
      → ((w : Twin) → Has ws w → entity_node v.entity ≡ w.node
      → nat_lt v.index (length (types_from t v.entity)) ≡ true → ⊥)
      → (with_twins t m ws).value v ≡ m.value v
  other-values [] m v n = refl
  other-values (w ∷ ws) m v n =
      other-values ws (with_twin t m w.node w.copy) v (λ x h. n x (inr h)) ∙ other-value m w.node w.copy v (n w (inl refl))

  -- and other blocks
  other-block : (m : Images) (n c : IRNode) (b : Ptr BlockKind) → (BasicBlock b ≡ n → ⊥)
      → (with_twin t m n c).block b ≡ m.block b
  other-block m (BasicBlock p) (BasicBlock q) b n =
      skipped (same_ptr p b) (Some q) (m.block b) (λ h. n (ap BasicBlock (sym ((ptr-exact p b).0 h))))
  other-block m (Operation p) (Operation q) b n = refl
  other-block m (Region p) (Operation q) b n = refl
  other-block m (Region p) (Region q) b n = refl
  other-block m (Region p) (BasicBlock q) b n = refl
  other-block m (Operation p) (Region q) b n = refl
  other-block m (Operation p) (BasicBlock q) b n = refl
  other-block m (BasicBlock p) (Operation q) b n = refl
  other-block m (BasicBlock p) (Region q) b n = refl

  pub other-blocks : (ws : List Twin) (m : Images) (b : Ptr BlockKind)
      → ((w : Twin) → Has ws w → BasicBlock b ≡ w.node → ⊥) → (with_twins t m ws).block b ≡ m.block b
  other-blocks [] m b n = refl
  other-blocks (w ∷ ws) m b n =
      other-blocks ws (with_twin t m w.node w.copy) b (λ x h. n x (inr h)) ∙ other-block m w.node w.copy b (n w (inl refl))

  -- a value of the node
  put-value : (m : Images) (e f : DefiningEntity) (i : ℕ) → AreOfOneKind (entity_node e) (entity_node f)
      → nat_lt i (length (types_from t e)) ≡ true
      → (with_twin t m (entity_node e) (entity_node f)).value (value_at e i) ≡ Some (value_at f i)
  put-value m (Op p) (Op q) i k l =
      ap (λ b. cond b (Some (value_at (Op q) i)) (m.value (value_at (Op p) i))) (and_from (same_ptr p p)
      (nat_lt i (length (types_from t (Op p)))) ((ptr-exact p p).1 refl) l)
  put-value m (Block p) (Block q) i k l =
      ap (λ b. cond b (Some (value_at (Block q) i)) (m.value (value_at (Block p) i))) (and_from (same_ptr p p)
      (nat_lt i (length (types_from t (Block p)))) ((ptr-exact p p).1 refl) l)
  put-value m (Op p) (Block q) i k l = absurd k
  put-value m (Block p) (Op q) i k l = absurd k

  pub put-values : (ws : List Twin) → Distinct (nodes_of ws) → (m : Images) (e f : DefiningEntity) (i : ℕ) (w : Twin)
      → Has ws w → w.node ≡ entity_node e → w.copy ≡ entity_node f → AreOfOneKind (entity_node e) (entity_node f)
      → nat_lt i (length (types_from t e)) ≡ true → (with_twins t m ws).value (value_at e i) ≡ Some (value_at f i)
  put-values [] d m e f i w h n c k l = absurd h
  put-values (x ∷ ws) d m e f i w (inl same) n c k l =
      other-values ws (with_twin t m x.node x.copy) (value_at e i) (λ y h q r.
      d.0 (subst (Has (nodes_of ws)) (sym q ∙ sym n ∙ ap (λ z. z.node) (sym same)) (map-Has (λ z. z.node) ws y h)))
      ∙ subst (λ a. (with_twin t m a x.copy).value (value_at e i) ≡ Some (value_at f i)) (sym (ap (λ z. z.node) same ∙ n))
      (subst (λ a. (with_twin t m (entity_node e) a).value (value_at e i) ≡ Some (value_at f i))
      (sym (ap (λ z. z.copy) same ∙ c)) (put-value m e f i k l))
  put-values (x ∷ ws) d m e f i w (inr h) n c k l = put-values ws d.1 (with_twin t m x.node x.copy) e f i w h n c k l

  pub put-blocks : (ws : List Twin) → Distinct (nodes_of ws) → (m : Images) (b c : Ptr BlockKind) (w : Twin)
      → Has ws w → w.node ≡ BasicBlock b → w.copy ≡ BasicBlock c → (with_twins t m ws).block b ≡ Some c
  put-blocks [] d m b c w h n e = absurd h
  put-blocks (x ∷ ws) d m b c w (inl same) n e =
      other-blocks ws (with_twin t m x.node x.copy) b (λ y h q.
      d.0 (subst (Has (nodes_of ws)) (sym q ∙ sym n ∙ ap (λ z. z.node) (sym same)) (map-Has (λ z. z.node) ws y h)))
      ∙ subst (λ a. (with_twin t m a x.copy).block b ≡ Some c) (sym (ap (λ z. z.node) same ∙ n))
      (subst (λ a. (with_twin t m (BasicBlock b) a).block b ≡ Some c) (sym (ap (λ z. z.copy) same ∙ e))
      (ap (λ v. cond v (Some c) (m.block b)) ((ptr-exact b b).1 refl)))
  put-blocks (x ∷ ws) d m b c w (inr h) n e = put-blocks ws d.1 (with_twin t m x.node x.copy) b c w h n e

  -- all of it is live
  live-one : (m : Images) (n c : IRNode) → AreImagesLive t m → IsLive t c → HoldsAs t t n c
      → AreImagesLive t (with_twin t m n c)
  live-one m (Operation p) (Operation q) h l e =
      live-values t m h (Op p) (Op q) (length (types_from t (Op p))) l (ap (λ o. length (results_in o)) (sym e))
  live-one m (BasicBlock p) (BasicBlock q) h l e =
      live-block t _ (live-values t m h (Block p) (Block q) (length (types_from t (Block p))) l
      (ap (λ o. length (arguments_in o)) (sym e))) p q l
  live-one m (Region p) (Operation q) h l e = h
  live-one m (Region p) (Region q) h l e = h
  live-one m (Region p) (BasicBlock q) h l e = h
  live-one m (Operation p) (Region q) h l e = h
  live-one m (Operation p) (BasicBlock q) h l e = h
  live-one m (BasicBlock p) (Operation q) h l e = h
  live-one m (BasicBlock p) (Region q) h l e = h

  pub live-all : (ws : List Twin) (m : Images) → AreImagesLive t m → ((w : Twin) → Has ws w → IsLive t w.copy)
      → ((w : Twin) → Has ws w → HoldsAs t t w.node w.copy) → AreImagesLive t (with_twins t m ws)
  live-all [] m h l e = h
  live-all (w ∷ ws) m h l e =
      live-all ws (with_twin t m w.node w.copy) (live-one m w.node w.copy h (l w (inl refl)) (e w (inl refl)))
      (λ x k. l x (inr k)) (λ x k. e x (inr k))

  pub live-over : (m n : Images) → AreImagesLive t m → AreImagesLive t n → AreImagesLive t (over m n)
  live-over m n a b = record {
    values = λ v w e. go-value v w (m.value v) refl e;
    blocks = λ x y e. go-block x y (m.block x) refl e;
  }
    where
      go-value : (v w : Value) (o : Option Value) → m.value v ≡ o → option_or o (n.value v) ≡ Some w → IsValueLive t w
      go-value v w None p e = b.values v w e
      go-value v w (Some x) p e = a.values v w (p ∙ e)

      go-block : (x y : Ptr BlockKind) (o : Option (Ptr BlockKind)) → m.block x ≡ o → option_or o (n.block x) ≡ Some y
          → IsLive t (BasicBlock y)
      go-block x y None p e = b.blocks x y e
      go-block x y (Some z) p e = a.blocks x y (p ∙ e)
