-- What the code's structs say: a site and a line, each as the definitions have it. Assumes nothing.
use Rattle.definitions.specs.Model as model
use Rattle.records.specs.declared.Site.{Site}
use Rattle.records.specs.declared.Line.{Line}

abbrev pub site_in : Site → model.Site
site_in s = record { subject = s.subject.0; flag = s.flag; spare = s.spare; type = s.names }

abbrev pub line_in : Line → model.Line
line_in l = record {
  op = l.op;
  name1 = l.name1.0;
  name2 = l.name2.0;
  spare = l.spare;
  child1 = l.child1;
  child2 = l.child2;
  type = l.names;
}
