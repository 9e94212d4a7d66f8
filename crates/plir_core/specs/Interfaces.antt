-- Which interfaces the kinds of operations implement.
use Rattle.std.specs.Prelude.{Bool, true, false}
use Rattle.plir_data.specs.declared.op_set.OpKind.{OpKind}
use Rattle.plir_data.specs.declared.op_set.OpKind.TheVariants.{Module, Func, Own}
use Rattle.plir_core.specs.declared.interface.Interface.{Interface}
use Rattle.plir_core.specs.declared.interface.Interface.TheVariants.{Terminator, Symbol, SymbolTable, SymbolUser}

-- Whether a kind implements an interface: a module is a symbol and a symbol table, a function is a symbol, no other
-- builtin kind implements any, and of the user's own kinds the four tests tell.
abbrev pub implements : {K : Type 0} → (is_terminator is_symbol is_symbol_table is_symbol_user : K → Bool) → OpKind K →
    Interface → Bool
implements t s b u Module Symbol = true
implements t s b u Module SymbolTable = true
implements t s b u Func Symbol = true
implements t s b u (Own k) Terminator = t k
implements t s b u (Own k) Symbol = s k
implements t s b u (Own k) SymbolTable = b k
implements t s b u (Own k) SymbolUser = u k
implements t s b u _ _ = false
