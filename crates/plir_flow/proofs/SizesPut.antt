-- Sizes that are taken out to be edited, and put back.
use Rattle.std.proofs.Common.{◌≡◌, true, Option, Some, None, IsSome, is_some, ◌&&◌, ◌==◌, refl, sym, ap, subst, ◌∙◌}
use Rattle.std.specs.Prelude.{option_map}
use Rattle.plir_data.specs.AttrView.{AttrView}
use Rattle.plir_data.specs.Dictionary.{dict_get}
use Rattle.plir_data.specs.DictLaws.{put-put, get-put}
use Rattle.plir_store.specs.Table.{version_at}
use Rattle.plir_core.specs.declared.ptr.Ptr.{Ptr}
use Rattle.plir_core.specs.declared.ptr.Operation.{Operation as OperationKind}
use Rattle.plir_core.specs.declared.ptr.IRNode.TheVariants.{Operation}
use Rattle.plir_core.specs.Contents.{OpView}
use Rattle.plir_core.specs.ContextView.{ContextView, IsLive, op_at, attributes_in, attributes_of}
use Rattle.plir_core.specs.Changes.{with_op_edit}
use Rattle.plir_core.specs.Held.{IsOpEdited}
use Rattle.plir_flow.specs.Segments.{sizes_key, with_sizes}

module _ {K A T : Type 0} (s : ContextView K A T) (op : Ptr OperationKind) where
  -- two edits of the operation are one, and an edit is what it makes of what is held
  abbrev pub Join : Type 0
  Join = (f g : OpView K A → OpView K A) → with_op_edit (with_op_edit s op f) op g ≡ with_op_edit s op (λ o. g (f o))

  abbrev pub Same : Type 0
  Same =
      (f g : OpView K A → OpView K A) → ((o : OpView K A) → op_at s op ≡ Some o → f o ≡ g o)
      → with_op_edit s op f ≡ with_op_edit s op g

  -- of two attributes put under the key of sizes the second stays
  pub sizes-again : (t u : ContextView K A T) (a b : AttrView A) → Join → Same → t ≡ with_op_edit s op (with_sizes a)
      → u ≡ with_op_edit t op (with_sizes b) → u ≡ with_op_edit s op (with_sizes b)
  sizes-again t u a b join same first second =
      second
      ∙ ap (λ z. with_op_edit z op (with_sizes b)) first
      ∙ join (with_sizes a) (with_sizes b)
      ∙ same (λ o. with_sizes b (with_sizes a o)) (with_sizes b)
      (λ o h. ap (λ es. record o { attributes = es }) (put-put o.attributes sizes_key a b))

  -- and something stands there
  pub sizes-there : (t : ContextView K A T) (a : AttrView A) → IsLive s (Operation op)
      → t ≡ with_op_edit s op (with_sizes a) → IsOpEdited s (with_op_edit s op (with_sizes a)) op (with_sizes a)
      → IsSome (dict_get (attributes_of t op) sizes_key)
  sizes-there t a live is edited = go (op_at s op) refl live (ap (λ z. op_at z op) is ∙ edited.held)
    where
      go : (o : Option (OpView K A)) → op_at s op ≡ o
          → (is_some o && (version_at s.nodes.ops op.slot == op.version)) ≡ true
          → op_at t op ≡ option_map (with_sizes a) (op_at s op) → IsSome (dict_get (attributes_of t op) sizes_key)
      go None e l held = absurd (let z : ⊥ = cc (l) in z)
      go (Some o) e l held =
          let put : op_at t op ≡ Some (with_sizes a o) = held ∙ ap (option_map (with_sizes a)) e in
          subst IsSome (sym (ap (λ z. dict_get (attributes_in z) sizes_key) put ∙ get-put o.attributes sizes_key a))
          refl
