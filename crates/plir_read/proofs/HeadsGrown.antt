-- Headers that are held while types come.
use Rattle.std.proofs.Common.{List}
use Rattle.plir_data.specs.Types.{TypeView}
use Rattle.plir_attr_text.specs.laws.Growth.{Names-grown}
use Rattle.plir_attr_text.specs.Names.{Grows}
use Rattle.plir_read.specs.Heads.{IsHead}
use Rattle.plir_read.specs.OpTerms.{Head, module_head, func_head}
use Rattle.plir_read.specs.declared.heads.HeadData.{HeadData}
use Rattle.plir_read.specs.declared.heads.HeadData.TheVariants.{Module, Func}

pub IsHead-grown : {T : Type 0} (old new : List (TypeView T)) (h : HeadData) (d : Head) → Grows old new →
    IsHead old h d → IsHead new h d
IsHead-grown old new (Module name) (module_head w) g e = e
IsHead-grown old new (Module name) (func_head w t) g e = absurd e
IsHead-grown old new (Func name handle) (module_head w) g e = absurd e
IsHead-grown old new (Func name handle) (func_head w t) g e = (e.0, Names-grown old new handle t g e.1)
