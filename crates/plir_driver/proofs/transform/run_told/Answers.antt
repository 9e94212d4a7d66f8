use Rattle.std.proofs.Common.{◌≡◌, ℕ, true, List, ap, codes, string_bytes, subst}
use Rattle.std.specs.Prelude.{IsSome}
use Rattle.plir_driver.specs.Counts.{AreCountsPut}
use Rattle.plir_driver.specs.Dumps.{IsDumpedWhere}
use Rattle.plir_pipelines.specs.Passes.{bearer}
use Rattle.plir_driver.proofs.Logging.{dumped-where, or-first, or-second, uncounted}
use Rattle.plir_driver.proofs.transform.run_told.Goals as goal

pub returns-clause-logged : goal.returns-clause-logged
returns-clause-logged g c =
    let before : List ℕ → Type 0 = λ n. IsSome (bearer g.P.Offered.pass_name c.args.reports.now.before.items n) in
    let w = string_bytes c.args.log.now.text in
    let between = string_bytes c.put_dump.new.log in
    let dumped = string_bytes c.put_dump-2.new.log in record {
      between = between;
      dumped = dumped;
      before =
          subst (λ n. IsDumpedWhere g.D.OpSet c.args.root (before n) (codes "Before") n c.args.ctx.now w between)
          c.name-name.ensures
          (dumped-where g.D.OpSet c.args.root (before c.name-name.result.now) (codes "Before") c.name-name.result.now
          c.args.ctx.now w between c.is_dumped_before-before.result c.is_dumped_before-before.ensures.1
          c.is_dumped_before-before.ensures.0 c.in_ok-put_dump.ensures.asked
          (λ e. ap string_bytes (c.put_dump.ensures.unasked e).1));
      after =
          subst (λ n. IsDumpedWhere g.D.OpSet c.args.root (c.args.reports.now.after_all ≡ true) (codes "After") n
          c.run_one.new.ctx between dumped) c.name-name.ensures
          (dumped-where g.D.OpSet c.args.root (c.args.reports.now.after_all ≡ true) (codes "After")
          c.name-name.result.now c.run_one.new.ctx between dumped c.args.reports.now.after_all (λ e. e) (λ e. e)
          c.in_ok-put_dump-2.ensures.asked (λ e. ap string_bytes (c.put_dump-2.ensures.unasked e).1));
      counted = λ asked.
          (let counts = or-first c.args.reports.now.stats c.args.reports.now.timing c.are_counted-are_counted.result
          c.are_counted-are_counted.ensures asked in
          subst (λ n. AreCountsPut c.args.root n c.args.ctx.now c.run_one.new.ctx dumped
          (string_bytes c.put_counts.new.log)) c.name-name.ensures (
            c.count_if-before.result,
            c.count_if-after.result,
            c.in_ok-end.end,
            c.count_if-before.ensures counts,
            c.count_if-after.ensures counts,
            c.in_ok-end.ensures.end,
            c.in_ok-put_counts.ensures.asked asked,
          ));
      uncounted = uncounted c.args.reports.now.stats (λ e. ap string_bytes (c.put_counts.ensures.unasked e).1);
      timed = λ asked.
          (let counts = or-second c.args.reports.now.stats c.args.reports.now.timing c.are_counted-are_counted.result
          c.are_counted-are_counted.ensures asked in (
            record {
              name = c.name-name.result;
              nanos = c.nanos_since-nanos.result;
              before = c.count_if-before.result;
              after = c.count_if-after.result;
            },
            c.name-name.ensures,
            c.count_if-before.ensures counts,
            c.count_if-after.ensures counts,
            c.in_ok-put_time.ensures.asked asked,
          ));
      untimed = uncounted c.args.reports.now.timing (λ e. ap (λ z. z.items) (c.put_time.ensures.unasked e).1);
    }
