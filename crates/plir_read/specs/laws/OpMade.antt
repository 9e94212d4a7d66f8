-- Operations and blocks that are made of what was read.
use Rattle.std.proofs.Common.{◌≡◌, ℕ, zero, suc, append-nil, cond, is_none, option_map, true, false, Bool, List, []}
use Rattle.std.proofs.Common.{◌∷◌, Option, Some, None, inl, refl, sym, ap, subst, ◌∙◌}
use Rattle.std.proofs.lemmas.Option.{same_Some}
use Rattle.std.specs.List.{list_all}
use Rattle.plir_data.specs.Dictionary.{dict_put}
use Rattle.plir_data.specs.AttrLive.{IsAttrLive}
use Rattle.plir_data.specs.AttrView.{AttrView, leaf, given_names}
use Rattle.plir_data.specs.Types.{TypeView, AllLive, IsLive as IsTypeLive}
use Rattle.plir_data.specs.Keys.{names_key}
use Rattle.plir_core.specs.declared.ptr.Ptr.{Ptr}
use Rattle.plir_core.specs.declared.ptr.BasicBlock.{BasicBlock as BlockKind}
use Rattle.plir_core.specs.declared.ptr.Operation.{Operation as OperationKind}
use Rattle.plir_core.specs.declared.ptr.Region.{Region as RegionKind}
use Rattle.plir_core.specs.declared.ptr.IRNode.{IRNode}
use Rattle.plir_core.specs.declared.ptr.IRNode.TheVariants.{Operation, Region, BasicBlock}
use Rattle.plir_core.specs.Above.{climb}
use Rattle.plir_core.specs.Changes.{SameLive}
use Rattle.plir_core.specs.Contents.{OpView, BlockView}
use Rattle.plir_core.specs.Held.{IsBlockEdited}
use Rattle.plir_core.specs.Grown.{IsGrown, Growth}
use Rattle.plir_core.specs.Made.{KeepsLive, IsMade}
use Rattle.plir_store.specs.Members.{Has}
use Rattle.plir_core.specs.Nodes.{is_node_live, node_children}
use Rattle.plir_core.specs.Stored.{IsStored}
use Rattle.plir_core.specs.Standing.{IsStanding}
use Rattle.plir_core.specs.ContextView.{ContextView, IsLive, given_out, children, parent_of, op_at}
use Rattle.plir_attr_text.specs.laws.Growth.{Grows-itself, Names-grown, NamesAll-grown, Names-live, both_live}
use Rattle.plir_attr_text.specs.laws.Meanings.{IsMeant-live, IsDictMeant-grown}
use Rattle.plir_attr_text.specs.Terms.{no_types, AttrTerm, TypeTerm}
use Rattle.plir_attr_text.specs.Names.{Grows}
use Rattle.plir_read.specs.Heads.{IsHead, IsHeader, IsHeadLive, op_with, argument_types, names_attributes, IsBlockHead}
use Rattle.plir_read.specs.Heads.{block_with, IsConstant, constant_op}
use Rattle.plir_read.specs.Keeping.{KeepsBut, KeepsOlder, IsNewOp, IsNewLeaf, IsNewBlock}
use Rattle.plir_read.specs.OpTerms.{Head, module_head, func_head, Header, BlockHead, op_term, BlockTerm, blocks_of}
use Rattle.plir_read.specs.OpsStanding.{IsHeadAt, IsBlockHeadAt, IsConstantAt, IsOpAt, AreBlocksAt}
use Rattle.plir_read.specs.Suffixes.{given_name}
use Rattle.plir_read.specs.declared.arguments.BlockHeadData.{BlockHeadData}
use Rattle.plir_read.specs.declared.heads.HeadData.{HeadData}
use Rattle.plir_read.specs.declared.heads.HeadData.TheVariants.{Module, Func}
use Rattle.plir_read.specs.declared.names.Suffix.TheVariants as Suffix
use Rattle.plir_read.specs.laws.Kept.{KeepsLive-itself, KeepsBut-on}

module _ {K A T : Type 0} where
  -- a tree that was made keeps all that is older
  pub KeepsOlder-made : (s t : ContextView K A T) (n : IRNode) → IsMade s.nodes t.nodes n → t.types ≡ s.types →
      KeepsOlder s t
  KeepsOlder-made s t n m e =
      record {
        keeps = m.keeps;
        children = λ x f h. m.children x f;
        types =
            subst (Grows s.types) (sym e) (Grows-itself s.types);
      }

  -- so does what changes no live node
  pub KeepsOlder-same : (s t : ContextView K A T) → SameLive s t →
      ((n : IRNode) → given_out s n ≡ true → given_out t n ≡ true) → KeepsOlder s t
  KeepsOlder-same s t p given = record {
    keeps = record {
      live = λ m e. p.nodes.live m ∙ e;
      parents = λ m e. p.nodes.parents m;
      ops = λ q e. p.nodes.ops q e;
      blocks = λ q e. p.nodes.blocks q e;
      given = given;
      limit = p.nodes.limit;
    };
    children = λ m e h. p.nodes.children m;
    types = subst (Grows s.types) (sym p.types) (Grows-itself s.types);
  }

  -- and what makes types alone
  pub KeepsOlder-typed : (s t : ContextView K A T) → t.nodes ≡ s.nodes → Grows s.types t.types → KeepsOlder s t
  KeepsOlder-typed s t e g = record {
    keeps = subst (KeepsLive s.nodes) (sym e) (KeepsLive-itself s.nodes);
    children = λ m f h. ap (λ z. node_children z m) e;
    types = g;
  }

  -- one behind the other
  pub KeepsOlder-on : (s t u : ContextView K A T) → KeepsOlder s t → KeepsOlder t u → KeepsOlder s u
  KeepsOlder-on s t u p q = KeepsBut-on s t u None None (λ m e h. h) p q

  -- what is new is not what was live
  new_apart : (s : ContextView K A T) (n m : IRNode) → is_node_live s.nodes n ≡ false → IsLive s m → Some n ≡ Some m → ⊥
  new_apart s n m new e q = let f = subst (λ z. IsLive s z) (sym (same_Some n m q)) e in let z = sym f ∙ new in cc

  -- a tree that was made, and what came under a part of it
  pub part_kept : (s t u : ContextView K A T) (n o : IRNode) → IsMade s.nodes t.nodes n →
      is_node_live s.nodes o ≡ false → t.types ≡ s.types → KeepsBut t u (Some o) → KeepsOlder s u
  part_kept s t u n o m new e k =
      KeepsBut-on s t u None (Some o) (λ x f h q. new_apart s o x new f q) (KeepsOlder-made s t n m e) k

  -- a tree that was made, and what came under its root
  pub root_grown : (s t u : ContextView K A T) (n : IRNode) → Growth s.nodes → IsStored t.nodes →
      IsMade s.nodes t.nodes n → IsGrown t.nodes u.nodes n → IsMade s.nodes u.nodes n
  root_grown s t u n w f m g = w.made t.nodes u.nodes n n f m m.root m.new g

  -- ---- a block

  -- From a to s types were read; from s to t the block was made, and from t to u its operations.
  module _ (a s t u : ContextView K A T) (p : Ptr BlockKind) (h : BlockHeadData) (same : s.nodes ≡ a.nodes)
      (types : Grows a.types s.types) (n : IsNewBlock s t p (block_with h)) where
    pub block_kept : KeepsBut t u (Some (BasicBlock p)) → KeepsOlder a u
    block_kept k = KeepsOlder-on a s u (KeepsOlder-typed a s same types)
        (part_kept s t u (BasicBlock p) (BasicBlock p) n.made n.made.new n.types k)

    pub block_made : Growth s.nodes → IsStored t.nodes → IsGrown t.nodes u.nodes (BasicBlock p) →
        IsMade a.nodes u.nodes (BasicBlock p)
    block_made growth f g =
        subst (λ z. IsMade z u.nodes (BasicBlock p)) same (root_grown s t u (BasicBlock p) growth f n.made g)

    pub block_stands : (b : BlockHead) → IsBlockHead s.types h b → KeepsBut t u (Some (BasicBlock p)) →
        IsBlockHeadAt u (BasicBlock p) b
    block_stands b is k = (
      h.arguments.types.items,
      NamesAll-grown s.types u.types h.arguments.types.items (argument_types b.1)
          (subst (λ z. Grows z u.types) n.types k.types) is.arguments.typed,
      k.keeps.blocks p n.made.root ∙ n.held
          ∙ ap (λ l. let v : BlockView A =
          record {
            label = l;
            arg_types = h.arguments.types.items;
            attributes =
                names_attributes h.arguments.names.items;
          } in Some v) is.label
          ∙ ap (λ l. let v : BlockView A =
          record {
            label = given_name Suffix.Block b.0;
            arg_types = h.arguments.types.items;
            attributes =
                names_attributes l;
          } in Some v) is.arguments.named,
    )

  -- a new block is edited
  pub climb_same : (t u : ContextView K A T) → ((m : IRNode) → parent_of u m ≡ parent_of t m) →
      (k : ℕ) (x : Option IRNode) → climb (parent_of u) k x ≡ climb (parent_of t) k x
  climb_same t u e zero x = refl
  climb_same t u e (suc k) None = refl
  climb_same t u e (suc k) (Some m) = ap (climb (parent_of u) k) (e m) ∙ climb_same t u e k (parent_of t m)

  pub IsNewBlock-edited : (s t u : ContextView K A T) (p : Ptr BlockKind) (v : BlockView A)
      (f : BlockView A → BlockView A) → IsNewBlock s t p v → IsBlockEdited t u p f → IsNewBlock s u p (f v)
  IsNewBlock-edited s t u p v f n e = record {
    made = record {
      keeps = record {
        live = λ m h. e.keeps.live m ∙ n.made.keeps.live m h;
        parents = λ m h. e.keeps.parents m ∙ n.made.keeps.parents m h;
        ops = λ q h. e.ops q ∙ n.made.keeps.ops q h;
        blocks = λ q h. e.blocks q (n.made.keeps.live (BasicBlock q) h)
            (λ z. live_or_not (is_node_live s.nodes (BasicBlock q)) h
            (ap (λ y. is_node_live s.nodes (BasicBlock y)) z ∙ n.made.new)) ∙ n.made.keeps.blocks q h;
        given = λ m h. e.keeps.given m ∙ n.made.keeps.given m h;
        limit = e.keeps.limit ∙ n.made.keeps.limit;
      };
      children = λ m h. e.keeps.children m ∙ n.made.children m h;
      new = n.made.new;
      root = e.keeps.live (BasicBlock p) ∙ n.made.root;
      top = e.keeps.parents (BasicBlock p) ∙ n.made.top;
      below = λ m h g. (let r = n.made.below m (sym (e.keeps.live m) ∙ h) g in
          (r.0, climb_same t u e.keeps.parents r.0 (Some m) ∙ r.1));
      fresh = λ m h g. n.made.fresh m (sym (e.keeps.live m) ∙ h) g;
      apart = λ m h r. n.made.apart m h (r.0, sym (climb_same t u e.keeps.parents r.0 (Some m)) ∙ r.1);
    };
    held = e.held ∙ ap (option_map f) n.held;
    empty = e.keeps.children (BasicBlock p) ∙ n.empty;
    types = e.keeps.types ∙ n.types;
  }
    where
      live_or_not : (b : Bool) → b ≡ true → b ≡ false → ⊥
      live_or_not b p q = let z = sym p ∙ q in cc

  -- a new block whose arguments have a name
  pub named_block : (s t : ContextView K A T) (p : Ptr BlockKind) (h : BlockHeadData) →
      list_all is_none h.arguments.names.items ≡ false
      → IsNewBlock s t p (record {
        label = h.label;
        arg_types = h.arguments.types.items;
        attributes =
            dict_put [] names_key (leaf (given_names h.arguments.names.items));
      }) → IsNewBlock s t p (block_with h)
  named_block s t p h set n = record {
    made = n.made;
    held = n.held ∙ ap (λ b. let v : BlockView A =
        record {
          label = h.label;
          arg_types = h.arguments.types.items;
          attributes =
              cond b [] (dict_put [] names_key (leaf (given_names h.arguments.names.items)));
        } in Some v) (sym set);
    empty = n.empty;
    types = n.types;
  }

  -- ---- a constant

  -- From a to s types were read; from s to t the constant was made.
  module _ (a s t : ContextView K A T) (p : Ptr OperationKind) (names : List (Option (List ℕ))) (value : AttrView A)
      (handle : ℕ) (same : s.nodes ≡ a.nodes) (types : Grows a.types s.types)
      (n : IsNewLeaf s t p (constant_op names value handle)) where
    pub constant_kept : KeepsOlder a t
    constant_kept = KeepsOlder-on a s t (KeepsOlder-typed a s same types)
        (KeepsOlder-made s t (Operation p) n.made n.types)

    pub constant_made : IsMade a.nodes t.nodes (Operation p)
    constant_made = subst (λ z. IsMade z t.nodes (Operation p)) same n.made

    pub constant_stands : (c : AttrTerm × TypeTerm) → IsConstant s.types value handle c →
        IsConstantAt t (Operation p) names c
    constant_stands c is = (value, handle, subst (λ z. IsConstant z value handle c) (sym n.types) is, n.held, n.empty)

  -- ---- an operation

  pub body_above : (t : ContextView K A T) (p : Ptr OperationKind) (r : Ptr RegionKind) → IsStanding t →
      children t (Operation p) ≡ Region r ∷ [] → parent_of t (Region r) ≡ Some (Operation p)
  body_above t p r w e =
      w.forest.child_parent (Operation p) (Region r) (subst (λ z. Has z (Region r)) (sym e) (inl refl))

  pub body_new : (s t : ContextView K A T) (p : Ptr OperationKind) (r : Ptr RegionKind) (v : OpView K A) →
      IsStanding t → IsNewOp s t p r v → is_node_live s.nodes (Region r) ≡ false
  body_new s t p r v w n = at (is_node_live s.nodes (Region r)) refl
    where
      at : (b : Bool) → is_node_live s.nodes (Region r) ≡ b → is_node_live s.nodes (Region r) ≡ false
      at true e = absurd (n.made.apart (Region r) e (1, body_above t p r w n.body))
      at false e = e

  -- From a to s types were read; from s to t the operation was made, and from t to u its blocks.
  module _ (a s t u : ContextView K A T) (p : Ptr OperationKind) (r : Ptr RegionKind) (v : OpView K A)
      (w : IsStanding t) (same : s.nodes ≡ a.nodes) (types : Grows a.types s.types) (n : IsNewOp s t p r v) where
    pub op_kept : KeepsBut t u (Some (Region r)) → KeepsOlder a u
    op_kept k = KeepsOlder-on a s u (KeepsOlder-typed a s same types)
        (part_kept s t u (Operation p) (Region r) n.made (body_new s t p r v w n) n.types k)

    pub op_made : Growth s.nodes → IsStored t.nodes → IsGrown t.nodes u.nodes (Region r) →
        IsMade a.nodes u.nodes (Operation p)
    op_made growth f g = subst (λ z. IsMade z u.nodes (Operation p)) same
        (growth.made t.nodes u.nodes (Operation p) (Region r) f n.made n.live (body_new s t p r v w n) g)

    pub body_kept : KeepsBut t u (Some (Region r)) → children u (Operation p) ≡ Region r ∷ []
    body_kept k = k.children (Operation p) n.made.root (λ q. let f = same_Some (Region r) (Operation p) q in cc) ∙
        n.body

    head_stands : (h : HeadData) (entries : List (List ℕ × AttrView A)) (d : Head) → IsHead s.types h d →
        Grows s.types u.types → op_at u p ≡ Some (op_with h entries) → IsHeadAt u (Operation p) d entries
    head_stands (Module name) entries (module_head w) h g e = e ∙ ap (λ z. Some (op_with (Module z) entries)) h
    head_stands (Module name) entries (func_head w t) h g e = absurd h
    head_stands (Func name handle) entries (module_head w) h g e = absurd h
    head_stands (Func name handle) entries (func_head w t) h g e =
        (handle, Names-grown s.types u.types handle t g h.1, e ∙ ap (λ z. Some (op_with (Func z handle) entries)) h.0)

    pub op_stands : (h : HeadData) (entries : List (List ℕ × AttrView A)) (d : Header) (bs : List BlockTerm) →
        IsHeader s.types h entries d → v ≡ op_with h entries → KeepsBut t u (Some (Region r)) →
        AreBlocksAt u (children u (Region r)) (blocks_of bs) → IsOpAt u (Operation p) (op_term d (blocks_of bs))
    op_stands h entries d bs is e k b =
        let grown : Grows s.types u.types = subst (λ z. Grows z u.types) n.types k.types in (
          Region r,
          (
            entries,
            IsDictMeant-grown s.types u.types grown d.1 entries is.dictionary,
            head_stands h entries d.0 is.head_is grown (k.keeps.ops p n.made.root ∙ n.held ∙ ap (λ z. Some z) e),
          ),
          body_kept k,
          b,
        )

-- a value that is meant, and a handle that names a type, are live
pub value_live : {A T : Type 0} (own : A → List ℕ) (types : List (TypeView T)) (value : AttrView A) (handle : ℕ)
    (c : AttrTerm × TypeTerm) → IsConstant types value handle c → IsAttrLive own types value
value_live own types value handle c is = IsMeant-live own types c.0 value is.meant

pub result_live : {A T : Type 0} (types : List (TypeView T)) (value : AttrView A) (handle : ℕ)
    (c : AttrTerm × TypeTerm) → IsConstant types value handle c → IsTypeLive types handle
result_live types value handle c is = Names-live types handle c.1 is.typed

-- handles that name types are live
pub arguments_live : {T : Type 0} (types : List (TypeView T)) (h : BlockHeadData) (b : BlockHead) →
    IsBlockHead types h b → AllLive types h.arguments.types.items
arguments_live types h b is =
    subst (AllLive types) (append-nil h.arguments.types.items)
    (both_live types h.arguments.types.items [] (argument_types b.1) no_types is.arguments.typed refl)

pub head_live : {T : Type 0} (types : List (TypeView T)) (h : HeadData) (d : Head) → IsHead types h d →
    IsHeadLive types h
head_live types (Module name) (module_head w) e = tt
head_live types (Module name) (func_head w t) e = absurd e
head_live types (Func name handle) (module_head w) e = absurd e
head_live types (Func name handle) (func_head w t) e = Names-live types handle t e.1
