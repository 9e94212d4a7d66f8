-- The index of a pointer that was given out.
use Rattle.std.proofs.Common.{◌≡◌, ℕ, length, ◌&&◌, ◌+◌, true, inl, inr, ap, arith}
use Rattle.std.specs.Prelude.{nat_lt, nat_le}
use Rattle.std.proofs.lemmas.Bool.{cases_lt}
use Rattle.std.proofs.lemmas.List.{get_or_past}
use Rattle.plir_store.specs.Table.{Table, Cell, IsTable, no_cell, version_at}
use Rattle.plir_core.specs.declared.ptr.Ptr.{Ptr}
use Rattle.plir_core.specs.Nodes.{index_of, is_given_out}
use Rattle.plir_core.specs.Stored.{IsStored}
use Rattle.plir_core.specs.ContextView.{ContextView, IsIndexed}

given_within : (v a : ℕ) → a ≡ 0 → (nat_lt 0 v && nat_le v a) ≡ true → ⊥
given_within v a e h = grind arith

index_at : {C X : Type 0} (t : Table C) → IsTable t → (p : Ptr X) → is_given_out t p ≡ true → index_of p ≡ p.slot + 1
index_at {C} t w p e = elim (cases_lt p.slot (length t.slots)) [
  | inl h ↦ let f = w.num_slots in omega arith
  | inr h ↦ absurd (given_within p.version (version_at t p.slot)
      (ap (λ (z : Cell C). z.version) (get_or_past t.slots p.slot no_cell h)) e)
]

pub indexed : {K A T : Type 0} (s : ContextView K A T) → IsStored s.nodes → IsIndexed s
indexed s w = record {
  ops = index_at s.nodes.ops w.op_slots;
  regions = index_at s.nodes.regions w.region_slots;
  blocks = index_at s.nodes.blocks w.block_slots;
}
