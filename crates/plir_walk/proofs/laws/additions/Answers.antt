use Rattle.plir_walk.specs.AdditionLaws.{keeps-none, keeps-both, kept-value, kept-value-type, new-before}
use Rattle.plir_walk.proofs.laws.additions.Goals as goal

pub returns : goal.returns
returns g c = record {
  none = λ s. keeps-none s.nodes;
  both = λ s t u f h. keeps-both s.nodes t.nodes u.nodes f h;
  value = λ s t v f l. kept-value s t v f l;
  value_type = λ s t v f l. kept-value-type s t v f l;
  before = λ s t u x mark over w here made placed. new-before s t u x mark over w here made placed;
}
