mod BenchLabels
