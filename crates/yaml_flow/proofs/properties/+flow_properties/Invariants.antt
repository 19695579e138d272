use Rattle.yaml_flow.proofs.properties.+flow_properties.Given as goal

abbrev pub decreases-flow_properties : goal.decreases-flow_properties
decreases-flow_properties l = l.runs
