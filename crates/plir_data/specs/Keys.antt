-- The keys of attributes that operations and blocks of the builtin dialect hold.
use Rattle.std.specs.Prelude.{ℕ, List, codes}

-- the key that a symbol's name stands under
abbrev pub symbol_key : List ℕ
symbol_key = codes "builtin_sym_name"

-- the key that a function's type stands under
abbrev pub func_type_key : List ℕ
func_type_key = codes "builtin_func_type"

-- the key that a constant's value stands under
abbrev pub value_key : List ℕ
value_key = codes "builtin_constant_value"

-- the key that the names of results and arguments stand under
abbrev pub names_key : List ℕ
names_key = codes "builtin_given_names"
