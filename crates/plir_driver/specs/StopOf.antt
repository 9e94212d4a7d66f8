-- Which errors of the calls below are told as which.
use Rattle.std.specs.Prelude.{ℕ}
use Rattle.plir_data.specs.declared.location.VerifyErr.{VerifyErr}
use Rattle.plir_data.specs.declared.location.VerifyErr.TheVariants as of_verifiers
use Rattle.plir_attr_text.specs.declared.fault.Fault.TheVariants as faults
use Rattle.plir_read_ir.specs.declared.fault.IrErr.{IrErr}
use Rattle.plir_read_ir.specs.declared.fault.IrFault.{IrFault}
use Rattle.plir_read_ir.specs.declared.fault.IrFault.TheVariants.{Text}
use Rattle.plir_builtin.specs.declared.symbol_table_err.SymbolTableErr.{SymbolTableErr}
use Rattle.plir_builtin.specs.declared.symbol_table_err.SymbolTableErr.TheVariants as of_tables
use Rattle.plir_verify.specs.declared.tree_err.TreeVerifyErr.{TreeVerifyErr}
use Rattle.plir_driver.specs.declared.pass_err.PassErr.{PassErr}
use Rattle.plir_driver.specs.declared.pass_err.PassErr.TheVariants as of_passes
use Rattle.plir_driver.specs.declared.stop.Stop.{Stop}
use Rattle.plir_driver.specs.declared.stop.Stop.TheVariants.{Unread, Refused, NoTable, Unfit}
use Rattle.plir_driver.specs.declared.stop.Stop.TheVariants.{TooManyNodes, OutOfMemory}

-- what a symbol table reports to a pass
abbrev pub of_table_in_pass : SymbolTableErr → PassErr
of_table_in_pass of_tables.Memory = of_passes.OutOfMemory
of_table_in_pass e = of_passes.NoTable e

module _ {E : Type 0} where
  -- a fault of a text at its place, or what was wanting
  abbrev pub of_fault : (line column : ℕ) → IrFault → Stop E
  of_fault line column (Text faults.Memory) = OutOfMemory
  of_fault line column (Text faults.TooManyNodes) = TooManyNodes
  of_fault line column fault = Unread line column fault

  abbrev pub of_reader : IrErr → Stop E
  of_reader e = of_fault e.line e.column e.fault

  -- what a verifier reports
  abbrev pub of_verifier : VerifyErr (TreeVerifyErr E) → Stop E
  of_verifier (of_verifiers.Refused loc e) = Refused loc e
  of_verifier of_verifiers.Memory = OutOfMemory

  -- what a symbol table reports
  abbrev pub of_table : SymbolTableErr → Stop E
  of_table of_tables.Memory = OutOfMemory
  of_table e = NoTable e

  -- what a pass reports
  abbrev pub of_pass : PassErr → Stop E
  of_pass (of_passes.NoTable e) = NoTable e
  of_pass (of_passes.Unfit why) = Unfit why
  of_pass of_passes.TooManyNodes = TooManyNodes
  of_pass of_passes.OutOfMemory = OutOfMemory
